-- The words of the contracts of this crate.
pub mod Literal
pub mod Truth
pub mod Formula
pub mod Members
