-- The symmetry rules and what they are for, in reading order.
pub mod Accesses
pub mod Rules
pub mod Turns
pub mod Apart
pub mod Pieces
pub mod Seen
pub mod Scanning
pub mod Verdicts
pub mod Worked
