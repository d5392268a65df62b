pub mod Sent
pub mod Views
