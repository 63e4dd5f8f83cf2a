pub mod RefusalLaws
pub mod Unique
