-- Definitions and statements of the laws.
pub mod Regions
pub mod Renamings
pub mod WorkedSamples
pub mod Listing
