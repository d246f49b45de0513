pub mod Faults
pub mod Machine
pub mod Kept
pub mod Timelines
pub mod Laws
pub mod Counted
pub mod Machinery
