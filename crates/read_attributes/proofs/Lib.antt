pub mod WalkLaws
pub mod WrittenLaws
mod Samples
mod Unique
