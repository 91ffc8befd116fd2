pub mod Calls
pub mod Faults
pub mod Memory
pub mod MemStore
pub mod MemSink
pub mod Host
pub mod FileStore
pub mod OutSink
