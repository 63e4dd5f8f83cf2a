pub mod CoderLaws
