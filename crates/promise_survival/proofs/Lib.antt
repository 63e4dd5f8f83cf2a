pub mod Stretch
pub mod SurvivorLaws
