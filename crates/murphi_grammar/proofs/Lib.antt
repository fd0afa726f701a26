pub mod Decided
pub mod Agree
pub mod AgreeAlternatives
pub mod AgreeTypes
pub mod AgreeFields
pub mod Agreement
pub mod Readings
