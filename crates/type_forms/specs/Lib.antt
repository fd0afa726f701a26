-- What code gives of designators, calls and types.
pub mod Designating
pub mod Calling
pub mod Writing
