-- How the size of the node type is written.
pub mod Sizes
