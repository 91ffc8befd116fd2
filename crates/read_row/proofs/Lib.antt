pub mod Datagrams
pub mod Closing
pub mod Tuples
