mod RewriteLaws
pub mod Samples
