pub mod Attributes
pub mod Step
pub mod Written
