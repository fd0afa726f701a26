-- What stands at the front of bytes, the reading of a whole text, and what a refusal tells.
pub mod Scanning
pub mod Seen
pub mod Refusals
pub mod Places
