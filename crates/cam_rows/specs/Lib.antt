pub mod ArcRuns
pub mod Lanes
pub mod Machinery
pub mod Rows
pub mod Runs
