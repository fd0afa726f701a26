-- Lemmas.
pub mod DepthLemmas
pub mod MaxLemmas
pub mod WalkEquations
pub mod StmtEquations
pub mod WalkLaws
pub mod PrefixLemmas
