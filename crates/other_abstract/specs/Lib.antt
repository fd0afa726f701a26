-- The words of the contracts of this crate, in reading order.
pub mod Windows
pub mod May
pub mod Joining
pub mod Images
pub mod Machines
pub mod Patterns
pub mod Making
pub mod Tests
pub mod Places
pub mod Stepping
pub mod Lists
pub mod Laws
