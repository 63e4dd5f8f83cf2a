pub mod Same
pub mod Word
