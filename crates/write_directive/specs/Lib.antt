pub mod Directive
pub mod GenomeBuild
pub mod Judge
pub mod Reading
pub mod Region
pub mod Version
