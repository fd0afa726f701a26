-- Lemmas of this crate.
pub mod Equations
pub mod Cells
pub mod SearchLemmas
pub mod NameLemmas
pub mod TableLemmas
