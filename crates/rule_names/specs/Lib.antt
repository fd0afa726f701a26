-- Words for what code writes.
pub mod Texts
