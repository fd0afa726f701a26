-- Lemmas.
pub mod ScopeLemmas
pub mod PartLemmas
pub mod ExprEquations
pub mod BodyEquations
pub mod WholeEquations
pub mod FormulaLemmas
