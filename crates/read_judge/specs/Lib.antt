pub mod Inner
pub mod Judge
pub mod Survey
