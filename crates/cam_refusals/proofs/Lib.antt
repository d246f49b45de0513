pub mod Checks
pub mod FileFaults
