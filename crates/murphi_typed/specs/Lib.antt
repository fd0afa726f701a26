-- What typed protocols mean, in reading order.
pub mod Forms
pub mod Values
pub mod Families
pub mod Names
pub mod Store
pub mod Outcome
pub mod Expressions
pub mod Execution
pub mod Steps
pub mod Prefix
pub mod PrefixLists
pub mod WellTyped
pub mod Keeping
pub mod Laws
pub mod Worked
pub mod WorkedBodies
pub mod WorkedSteps
