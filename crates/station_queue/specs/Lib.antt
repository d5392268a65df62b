pub mod Ends
pub mod Entries
pub mod Order
pub mod Returns
