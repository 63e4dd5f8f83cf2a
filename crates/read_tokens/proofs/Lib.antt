pub mod TokensLaws
mod Unique
