pub mod EntryEquations
pub mod ListLemmas
pub mod PieceEquations
pub mod TopEquations
