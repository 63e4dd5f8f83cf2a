pub mod PercentLaws
mod Samples
