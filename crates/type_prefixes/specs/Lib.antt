-- How deep bodies bind nodes, each body walked once.
pub mod Summaries
pub mod Walks
pub mod WalkLists
pub mod Lengths
pub mod Laws
