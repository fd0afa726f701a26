-- The reading of flat protocols, and what stops it.
pub mod Stop
pub mod Reading
pub mod Answers
pub mod Protocols
pub mod Steps
pub mod Scope
