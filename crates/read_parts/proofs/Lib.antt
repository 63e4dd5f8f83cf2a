pub mod BegunLaws
pub mod CallLaws
pub mod ReasonLaws
pub mod ReturnLaws
mod Samples
pub mod Sameness
pub mod SkipLaws
pub mod StoreLaws
mod Unique
