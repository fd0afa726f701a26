-- The words of the contracts of this crate.
pub mod Symbols
pub mod Names
pub mod Parts
pub mod Values
pub mod Pieces
pub mod Grammar
pub mod Factored
pub mod Tables
pub mod Laws
