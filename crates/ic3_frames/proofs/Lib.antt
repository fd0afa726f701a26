pub mod RefuteLemmas
