pub mod FewLaws
pub mod MeasuredLaws
mod Unique
