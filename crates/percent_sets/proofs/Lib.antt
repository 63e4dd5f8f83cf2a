pub mod ClassLaws
mod Samples
pub mod SetLaws
mod Unique
