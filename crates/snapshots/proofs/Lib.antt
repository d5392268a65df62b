pub mod Adding
pub mod CommandLists
pub mod Crossing
pub mod Folding
pub mod Keeping
pub mod Prefixes
