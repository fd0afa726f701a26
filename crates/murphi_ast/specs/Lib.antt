-- The words of the contracts of this crate.
pub mod Bytes
pub mod Spelling
pub mod Terminal
pub mod Grammar
pub mod Forms
pub mod State
pub mod Meaning
pub mod Step
pub mod Safety
pub mod Title
pub mod Flat
