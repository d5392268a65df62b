pub mod Disk
pub mod Fault
pub mod File
pub mod Host
pub mod Inside
pub mod Reasons
