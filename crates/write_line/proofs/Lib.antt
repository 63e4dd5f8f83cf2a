pub mod CountLaws
pub mod LedLaws
pub mod LineLaws
pub mod LoopLaws
pub mod PassLaws
mod Unique
