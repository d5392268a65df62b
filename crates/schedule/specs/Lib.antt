pub mod World
pub mod Next
pub mod Clauses
pub mod Laws
pub mod Rounds
pub mod RoundParts
