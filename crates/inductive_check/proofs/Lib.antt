pub mod LiteralLemmas
pub mod PathLemmas
pub mod OwnLemmas
pub mod LogLemmas
