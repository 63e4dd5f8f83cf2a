pub mod AnswerLaws
pub mod Demands
pub mod ItemLaws
pub mod Samples
mod Edges
