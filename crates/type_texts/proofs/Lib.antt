-- Typing of texts and of lemmas.
pub mod LemmaEquations
pub mod TextEquations
