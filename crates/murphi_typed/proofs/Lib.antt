-- Lemmas.
mod Samples
pub mod TestLemmas
pub mod LeafLemmas
pub mod KeepLemmas
pub mod ClearLemmas
pub mod EntryLemmas
pub mod InnerLemmas
pub mod BodyLemmas
pub mod RoutineLemmas
pub mod ListedLemmas
pub mod StepLemmas
pub mod MovedEquations
pub mod StateLemmas
pub mod ValueLemmas
pub mod ExpressionLemmas
pub mod TopLemmas
pub mod TypedLemmas
