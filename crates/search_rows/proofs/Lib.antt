pub mod SystemLemmas
mod ClauseLemmas
