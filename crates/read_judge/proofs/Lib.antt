pub mod AttributesLaws
pub mod JudgeLaws
pub mod PlainLaws
mod ReadLaws
mod Samples
mod StuckLaws
pub mod SurveyLaws
mod Unique
pub mod ValuesLaws
