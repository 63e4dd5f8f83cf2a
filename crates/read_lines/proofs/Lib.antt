pub mod BlankLaws
pub mod LinesLaws
pub mod StepLaws
mod Samples
mod Unique
