-- Lemmas.
pub mod FormalLemmas
pub mod ScopeLemmas
pub mod GlobalsLemmas
pub mod RoutineLemmas
pub mod TurnLemmas
pub mod TextLemmas
