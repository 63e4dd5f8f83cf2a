pub mod Bit
pub mod Bytes
pub mod Limits
pub mod Steps
