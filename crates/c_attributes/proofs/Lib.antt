pub mod BitLaws
pub mod CursorLaws
mod Unique
