pub mod Disk
pub mod Endings
pub mod Explanations
pub mod Synopsis
