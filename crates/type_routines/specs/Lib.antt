-- What code gives of routines and of the declarations of a text.
pub mod Formals
pub mod Routines
