pub mod AnswerLaws
pub mod LaidLaws
mod Unique
