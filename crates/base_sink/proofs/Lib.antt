pub mod PageLaws
pub mod StillLaws
pub mod Unique
