pub mod Filling
pub mod Padded
pub mod Next
pub mod Room
pub mod Reading
pub mod Adding
