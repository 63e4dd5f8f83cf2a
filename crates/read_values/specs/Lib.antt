pub mod Pieces
pub mod Step
