-- What contracts see, and words for what code has done so far.
pub mod Steps
pub mod Gathered
