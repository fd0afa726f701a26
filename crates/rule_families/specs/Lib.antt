-- Words for what code has done so far.
pub mod Choices
pub mod Under
