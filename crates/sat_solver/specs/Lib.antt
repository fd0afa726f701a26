-- The words of the contracts of this crate.
pub mod Naming
pub mod Assigned
pub mod Resolving
pub mod Searching
pub mod Answers
pub mod Propagated
pub mod Rounds
