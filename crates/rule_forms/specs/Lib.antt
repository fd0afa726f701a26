-- What contracts see of the values that the code works with, in reading order.
pub mod Words
pub mod Seen
