mod Samples
mod Unique
pub mod VersionLaws
