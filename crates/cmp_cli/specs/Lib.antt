-- The words of the contracts of the program.
pub mod Words
pub mod Reading
pub mod Report
pub mod Titles
pub mod Run
pub mod Judged
