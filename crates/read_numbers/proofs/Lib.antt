pub mod NumberLaws
pub mod PrefixLaws
mod Samples
mod Unique
