mod LookupLaws
mod Samples
mod Unique
