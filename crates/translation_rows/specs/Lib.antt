-- Protocols, and machines that a wrong translation of them would give.
pub mod Formals
pub mod Places
pub mod Writes
