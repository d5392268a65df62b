pub mod Places
pub mod Fitting
pub mod Spelling
pub mod Written
pub mod Cleared
pub mod Heads
pub mod Transfers
mod Faults
