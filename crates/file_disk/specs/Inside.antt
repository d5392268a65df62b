pub mod Note
pub mod Noted
