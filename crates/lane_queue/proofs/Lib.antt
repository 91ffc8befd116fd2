mod Lists
mod Sums
mod PoolKeeps
mod RingKeeps
mod Passing
mod Sends
mod Starts
mod Ends
pub mod Turns
