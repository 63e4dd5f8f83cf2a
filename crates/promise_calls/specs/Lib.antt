pub mod Blocks
pub mod Calls
pub mod Does
pub mod InC
pub mod NoField
pub mod Sinks
