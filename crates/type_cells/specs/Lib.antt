-- How many cells there are.
pub mod Counts
