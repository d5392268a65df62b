pub mod Filed
pub mod Counted
pub mod ListedMap
