pub mod Words
pub mod Replies
pub mod Rules
pub mod Listed
pub mod OfRegister
pub mod OfStore
