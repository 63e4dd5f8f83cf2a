pub mod Coder
pub mod Inner
