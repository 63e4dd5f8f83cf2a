pub mod SameLaws
mod Unique
