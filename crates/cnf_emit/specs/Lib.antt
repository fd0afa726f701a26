-- The words of the contracts of this crate.
pub mod Reach
pub mod Drafts
pub mod Encoding
pub mod Systems
