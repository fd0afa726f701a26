-- Lemmas.
pub mod ListLemmas
pub mod TitleLemmas
pub mod LimitLemmas
pub mod ScopeLemmas
pub mod BodyLemmas
pub mod RulesetLemmas
pub mod MadeLemmas
pub mod ItemEquations
pub mod ItemLemmas
