pub mod DecimalLaws
mod Samples
mod Unique
