pub mod TextLaws
mod Unique
