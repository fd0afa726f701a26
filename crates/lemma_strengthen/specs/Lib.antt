-- The words of the contracts of this crate, in reading order.
pub mod Opening
pub mod Laws
pub mod OpenLists
