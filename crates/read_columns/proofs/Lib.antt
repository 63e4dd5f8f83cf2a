pub mod ColumnsLaws
mod NearLaws
mod Samples
mod Unique
