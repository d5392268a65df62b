pub mod Walking
pub mod Fuller
pub mod Dumping
