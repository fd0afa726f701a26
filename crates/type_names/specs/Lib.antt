-- Names that are declared twice in one scope, and uses of a name, gathered in one walk over a text.
pub mod Scoping
pub mod Parts
pub mod Gathering
pub mod Bodies
pub mod Wholes
pub mod Known
pub mod Laws
