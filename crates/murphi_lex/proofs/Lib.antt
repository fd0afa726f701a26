-- Lemmas on runs of bytes, on what stands at their front, and on the reading of a text.
pub mod ByteLemmas
pub mod ReadingLemmas
pub mod PrefixLemmas
pub mod FormLemmas
pub mod FrontLemmas
pub mod SpellingLemmas
pub mod PlaceLemmas
