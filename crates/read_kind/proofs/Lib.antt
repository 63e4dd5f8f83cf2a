pub mod KindLaws
mod Samples
mod Unique
