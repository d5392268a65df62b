pub mod Table
pub mod Visits
pub mod Change
pub mod Borrowing
pub mod Following
pub mod Next
pub mod Walk
pub mod Inside
