pub mod Calls
pub mod Inner
pub mod Run
pub mod Sameness
pub mod State
