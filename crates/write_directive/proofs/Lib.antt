pub mod FewLaws
pub mod ReasonLaws
pub mod RoundTrip
pub mod TypedLaws
mod Unique
