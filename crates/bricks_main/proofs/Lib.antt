pub mod Alone
pub mod Checks
pub mod Generating
pub mod LanePromises
pub mod Promises
pub mod Words
