-- The worked cases.
pub mod Terms
pub mod Values
pub mod Counts
pub mod Mutex
pub mod Starts
pub mod Flag
