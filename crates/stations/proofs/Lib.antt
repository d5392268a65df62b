pub mod OneRun
pub mod Ordered
pub mod OnlyRead
pub mod Zipped
pub mod Places
pub mod Runs
pub mod Lines
pub mod Written
pub mod Served
mod RunLived
pub mod Crossing
pub mod Submissions
pub mod Unkept
