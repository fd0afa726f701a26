pub mod Growing
pub mod BlankLemmas
pub mod LeaveLemmas
