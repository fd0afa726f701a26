pub mod ChoiceLemmas
pub mod SegmentLemmas
pub mod ValueLemmas
pub mod FitLemmas
pub mod CodedLemmas
