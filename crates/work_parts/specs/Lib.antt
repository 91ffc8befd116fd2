pub mod Merged
pub mod Workers
pub mod Tenants
pub mod Works
pub mod Wholes
