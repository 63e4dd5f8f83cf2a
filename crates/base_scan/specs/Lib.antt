pub mod Find
pub mod Mask
pub mod Part
