-- Lemmas.
pub mod LeafEquations
pub mod DeclareEquations
pub mod GlobalsLemmas
pub mod DeclaringLemmas
pub mod TypeLemmas
