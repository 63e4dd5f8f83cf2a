-- What proofs need, and no public promise cites.
pub mod Spells
