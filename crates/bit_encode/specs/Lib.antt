-- The words of the contracts of this crate, in reading order.
pub mod Codes
pub mod MaySets
pub mod Coding
pub mod Leads
pub mod Forms
pub mod Terms
pub mod Steps
pub mod Laws
pub mod Worked
