-- Lemmas of this crate.
pub mod Turns
pub mod Places
pub mod SoFar
pub mod ExprArms
pub mod ListArms
pub mod ItemArms
pub mod DeclArms
pub mod ExprSound
pub mod ExprComplete
pub mod ItemSound
pub mod DeclSound
pub mod ItemComplete
pub mod DeclComplete
pub mod ScopeLemmas
pub mod Clean
pub mod FlatLaws
