pub mod BuildEquations
pub mod ConditionEquations
pub mod DemandEquations
pub mod DroppedEquations
pub mod ListLemmas
pub mod ValueEquations
