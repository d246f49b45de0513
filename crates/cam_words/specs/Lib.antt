pub mod Bytes
pub mod Heads
pub mod Pieces
pub mod Cutting
pub mod Reading
pub mod Laws
pub mod Machinery
