pub mod PoolRule
pub mod RingRule
pub mod Lists
pub mod Seats
pub mod Starts
pub mod Ends
pub mod Kits
pub mod Turns
