pub mod BoolLaws
pub mod CursorLaws
pub mod EveryLaws
pub mod One
pub mod OrderLaws
pub mod SansLaws
pub mod StepLaws
pub mod TableLaws
