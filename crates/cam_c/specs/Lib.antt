pub mod Lent
pub mod Calls
pub mod Pointers
pub mod Version
