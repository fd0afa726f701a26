pub mod KeyEquations
pub mod ListLemmas
pub mod WayEquations
