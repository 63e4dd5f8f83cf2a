pub mod Percent
