-- Lemmas.
pub mod DesignatorEquations
pub mod EnumLemmas
