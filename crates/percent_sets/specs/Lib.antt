pub mod Bars
pub mod Sets
