pub mod CursorLaws
pub mod LengthLaws
pub mod PastLaws
pub mod SheetLaws
mod Samples
mod Unique
