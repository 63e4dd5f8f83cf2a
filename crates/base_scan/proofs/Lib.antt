pub mod FindLaws
pub mod LastLaws
pub mod MarkLaws
pub mod MaskLaws
pub mod PartLaws
mod Unique
