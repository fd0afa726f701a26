-- The words of the contracts of this crate.
pub mod Induction
pub mod Refuting
