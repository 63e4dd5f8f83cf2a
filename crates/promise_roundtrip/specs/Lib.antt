pub mod Again
pub mod Reading
