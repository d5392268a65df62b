pub mod Numbers
pub mod Rule
pub mod Limits
pub mod Refusals
pub mod Registered
pub mod Listed
pub mod Inside
