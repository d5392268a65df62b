pub mod Parts
pub mod Words
pub mod Lines
pub mod Entries
pub mod Fullest
pub mod Dump
pub mod Texts
pub mod Inside
