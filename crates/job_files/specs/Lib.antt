-- What files of lemmas and of flows spell, and what is told of them.
pub mod Files
pub mod Items
pub mod Told
pub mod Uses
pub mod Walks
