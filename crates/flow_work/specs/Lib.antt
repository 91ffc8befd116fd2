pub mod Meaning
pub mod Node
pub mod Log
pub mod Buffers
pub mod Keys
