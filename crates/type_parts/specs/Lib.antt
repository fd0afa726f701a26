-- What code gives of what is found.
pub mod Judging
pub mod TypeLists
pub mod Contexts
pub mod Folding
