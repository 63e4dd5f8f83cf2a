pub mod PiecesLaws
pub mod ValueLaws
mod Unique
