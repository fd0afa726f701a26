-- Lemmas.
mod Samples
pub mod TableLemmas
