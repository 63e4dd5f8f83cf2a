pub mod VerdictLaws
mod Samples
mod Unique
