-- The words of the contracts of this crate, in reading order.
pub mod Facts
pub mod Inputs
