-- Lemmas of this crate.
pub mod Reached
