-- Lemmas.
pub mod NodeEquations
