-- What stands around a part.
pub mod Around
