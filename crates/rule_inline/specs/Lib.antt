-- Statements as terms, in reading order.
pub mod Demands
pub mod Tables
pub mod Parts
pub mod Bodies
pub mod Machine
pub mod Worked
pub mod Presents
pub mod Laws
pub mod WorkedMore
pub mod Loops
