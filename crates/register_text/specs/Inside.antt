pub mod Codes
pub mod Going
