mod Places
mod More
mod Views
mod Captures
pub mod Known
mod FlowNumbers
