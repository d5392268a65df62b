pub mod Refusals
mod ByNumber
mod TypeLaws
mod Whole
