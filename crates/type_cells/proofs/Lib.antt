-- Lemmas.
pub mod CountEquations
pub mod CellLemmas
