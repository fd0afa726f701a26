-- The words of the contracts of this crate, in reading order.
pub mod Paths
pub mod Laws
pub mod Steps
