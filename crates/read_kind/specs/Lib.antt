pub mod Kind
pub mod Reading
