pub mod Blocks
pub mod Calls
pub mod InC
pub mod NoField
mod DoesLaws
