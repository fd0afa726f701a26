-- The words of the contracts of this crate.
pub mod Live
pub mod Linking
