pub mod Captures
pub mod Made
pub mod OutputFiles
pub mod Sets
pub mod Steps
pub mod Tenants
pub mod Whole
