pub mod AddLaws
pub mod SumLaws
mod Samples
mod Unique
