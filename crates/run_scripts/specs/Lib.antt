-- What scripts write, and what is told of them.
pub mod Values
pub mod Usable
pub mod Scripts
pub mod Reading
pub mod Told
