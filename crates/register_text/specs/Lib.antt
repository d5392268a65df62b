pub mod Lines
pub mod Reading
pub mod Text
pub mod Dump
pub mod Cut
pub mod Faults
pub mod Passing
pub mod Inside
