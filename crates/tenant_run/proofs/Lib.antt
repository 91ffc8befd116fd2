pub mod Counts
mod InOrder
mod Leaves
mod Turning
mod Making
