pub mod Around
pub mod Paths
pub mod Counts
pub mod Grafting
pub mod Ordered
