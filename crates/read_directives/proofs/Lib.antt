pub mod BuildLaws
pub mod RegionLaws
pub mod WordLaws
mod Samples
mod Unique
