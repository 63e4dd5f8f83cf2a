-- What the promises of private functions cite, and no public promise does.
pub mod Led
