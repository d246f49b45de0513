pub mod Faults
pub mod PlainCalls
pub mod Replacing
pub mod Straight
pub mod Values
