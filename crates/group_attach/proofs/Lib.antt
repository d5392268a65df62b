pub mod Pairs
pub mod Filtered
mod Places
mod Counting
mod Endings
mod FiledFacts
mod Gathering
mod IndexFacts
pub mod Moves
mod BothSides
mod Answering
mod Steps
mod Rising
pub mod AllowedLaws
mod Restored
