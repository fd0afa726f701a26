-- What is found of the parts of expressions and types, over the lists that code reads.
pub mod PartLists
pub mod PartsGiven
pub mod Turns
