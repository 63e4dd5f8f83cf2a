pub mod Blank
pub mod Lines
pub mod Step
