-- The worked cases, evaluated; and lemmas for the calls on the machine of one flag.
pub mod Worked
mod FlagLemmas
mod FlagPaths
