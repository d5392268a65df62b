pub mod PrefixInside
pub mod NumberLaws
pub mod PathLaws
pub mod EightDigits
pub mod Kept
pub mod ReadDigits
