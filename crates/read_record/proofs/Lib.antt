pub mod UnfoldLaws
mod Unique
