-- The words of the contracts of this crate.
pub mod Forms
pub mod Spelling
pub mod Reading
pub mod Test
pub mod Walk
