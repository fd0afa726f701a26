pub mod ValueLemmas
pub mod EdgeLemmas
pub mod ChoiceLemmas
