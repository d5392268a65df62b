pub mod Kept
pub mod Listing
pub mod Answered
pub mod Ledgers
