-- The words of the contracts of this crate, in reading order.
pub mod Nodes
pub mod Values
pub mod Forms
pub mod Meaning
pub mod Cells
pub mod Variables
pub mod Reading
pub mod Firing
pub mod Whole
pub mod Substitution
pub mod Laws
pub mod Views
pub mod Lists
