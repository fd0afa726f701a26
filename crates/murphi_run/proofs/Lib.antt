-- Lemmas.
pub mod OrderLemmas
pub mod RankLemmas
pub mod NumberLemmas
pub mod LeadLemmas
pub mod SumLemmas
pub mod AlikeLemmas
pub mod HoldLemmas
pub mod StretchLemmas
pub mod PlaceLemmas
pub mod PlaceEquations
pub mod BlockLemmas
pub mod CallLemmas
pub mod VariableLemmas
pub mod LayoutEquations
pub mod CutLemmas
pub mod ValueEquations
pub mod PutLemmas
