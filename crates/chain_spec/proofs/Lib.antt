pub mod Walks
pub mod FileNames
pub mod Lists
pub mod Outputs
