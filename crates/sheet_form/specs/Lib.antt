pub mod Cursor
pub mod Inner
pub mod Reader
pub mod Sheet
