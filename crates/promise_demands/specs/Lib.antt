pub mod Demand
pub mod Item
pub mod Samples
