-- How the cells of running bodies are kept, in reading order.
pub mod Layout
pub mod Holding
pub mod Laws
pub mod Stretches
pub mod Places
pub mod PlaceLaws
pub mod Blocks
pub mod Calls
pub mod Lists
pub mod Seen
pub mod Operators
