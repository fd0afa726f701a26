-- What every tree keeps that tokens spell, and the statements of the laws.
pub mod Spelled
pub mod Sound
