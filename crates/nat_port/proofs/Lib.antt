pub mod Layers
mod Records
