pub mod Steps
pub mod Values
pub mod Results
pub mod Rooms
pub mod Places
mod Unopened
