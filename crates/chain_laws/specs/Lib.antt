pub mod Accepted
pub mod Files
pub mod Keys
pub mod Counts
pub mod SharedRest
pub mod Right
