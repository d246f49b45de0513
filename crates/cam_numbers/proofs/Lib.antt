pub mod Kept
pub mod Counting
pub mod TextFronts
pub mod Naturals
pub mod Fractions
pub mod Written
