pub mod AnswersLaws
mod Unique
