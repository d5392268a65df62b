pub mod Hearing
pub mod Committing
pub mod Lists
pub mod Publishing
pub mod Serving
