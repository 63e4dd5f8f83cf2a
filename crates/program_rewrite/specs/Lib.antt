pub mod Calls
pub mod Rewrite
pub mod Shown
