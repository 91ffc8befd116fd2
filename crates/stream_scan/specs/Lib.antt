pub mod LastBytes
pub mod Searched
pub mod ScanModel
