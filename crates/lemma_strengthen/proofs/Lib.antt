-- Lemmas of this crate.
pub mod NodeLemmas
pub mod TermLemmas
pub mod PlacingLemmas
pub mod OpenEquations
pub mod OpeningLemmas
pub mod FormulaLemmas
pub mod CountLemmas
