-- What contracts see of the values that the code works with, in reading order.
pub mod Steps
pub mod Seen
pub mod Layers
