mod Calls
pub mod Filled
pub mod OnlyRead
pub mod Made
pub mod Moments
pub mod Reading
pub mod Effects
