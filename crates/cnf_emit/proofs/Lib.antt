pub mod TruthLemmas
pub mod EncodeLemmas
pub mod ReachLemmas
pub mod CountLemmas
