pub mod Lasts
pub mod Plays
pub mod Documents
pub mod Ties
