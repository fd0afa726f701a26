-- What code gives of declarations.
pub mod Declaring
pub mod LeafLists
