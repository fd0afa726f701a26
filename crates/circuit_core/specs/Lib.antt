-- The words of the contracts of this crate.
pub mod Edges
pub mod Network
pub mod Value
pub mod Growth
