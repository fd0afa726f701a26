-- The words of the contracts of this crate, in reading order.
pub mod Choices
pub mod Layout
pub mod Coded
pub mod Laws
