pub mod Inner
pub mod Report
pub mod Sums
