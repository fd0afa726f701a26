-- The words of the contracts of this crate.
pub mod Says
pub mod Levels
pub mod Parts
pub mod Ends
pub mod Expression
