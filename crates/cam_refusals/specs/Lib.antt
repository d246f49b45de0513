pub mod Checks
pub mod FileFaults
pub mod Limits
pub mod Refusals
