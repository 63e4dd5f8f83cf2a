pub mod GenomeBuild
pub mod SequenceRegion
pub mod Then
