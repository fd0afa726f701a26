pub mod Growing
pub mod ChoosingLemmas
pub mod WindowLemmas
pub mod StartLemmas
pub mod StepLemmas
