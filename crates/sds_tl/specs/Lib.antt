pub mod Numbers
pub mod Identifier
pub mod Values
pub mod Syntax
pub mod Reading
pub mod Transfers
