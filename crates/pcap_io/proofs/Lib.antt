pub mod Records
pub mod Places
pub mod Headers
pub mod Builders
pub mod Captures
pub mod Faults
pub mod Refusals
