-- The words of the contracts of this crate.
pub mod Resolution
pub mod Derivation
pub mod Numbering
pub mod Ready
pub mod Renumbering
pub mod Marking
pub mod Trimming
