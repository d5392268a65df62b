pub mod Attached
pub mod Applied
pub mod Allowed
pub mod InOrder
pub mod Inside
