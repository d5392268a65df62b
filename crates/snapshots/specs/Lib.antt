pub mod Changes
pub mod Counts
pub mod Log
pub mod Publishing
pub mod Views
