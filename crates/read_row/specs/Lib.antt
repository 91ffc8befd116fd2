pub mod Datagram
pub mod Read
