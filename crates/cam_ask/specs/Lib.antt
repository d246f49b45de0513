pub mod Texts
pub mod Painted
pub mod Telling
pub mod Answers
