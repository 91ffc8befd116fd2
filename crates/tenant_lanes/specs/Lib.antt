pub mod Dones
pub mod Jobs
