-- Statements of the laws.
pub mod Keeping
