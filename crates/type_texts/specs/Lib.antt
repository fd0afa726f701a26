-- What typing answers of texts and of lemmas.
pub mod Lemmas
pub mod Refusing
pub mod Texts
