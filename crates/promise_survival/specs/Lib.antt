pub mod Survival
pub mod Survivors
