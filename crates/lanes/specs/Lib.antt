pub mod Runs
pub mod WrittenRun
pub mod Lanes
