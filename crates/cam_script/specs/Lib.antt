pub mod Words
pub mod Items
pub mod Commands
pub mod Parsing
pub mod Faults
pub mod Spelling
pub mod Questions
pub mod Machinery
