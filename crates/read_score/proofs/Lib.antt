mod Samples
pub mod ScoreLaws
mod Unique
