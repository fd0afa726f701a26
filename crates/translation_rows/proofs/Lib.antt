-- Lemmas.
mod Excluding
