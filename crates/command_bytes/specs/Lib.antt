pub mod Fields
pub mod Text
pub mod Reading
pub mod Views
pub mod Inside
