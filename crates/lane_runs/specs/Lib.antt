pub mod Jobs
pub mod Ran
pub mod Writing
