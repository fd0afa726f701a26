-- What code gives of items.
pub mod Titles
pub mod Limits
pub mod Bodies
pub mod Rulesets
pub mod Gathering
