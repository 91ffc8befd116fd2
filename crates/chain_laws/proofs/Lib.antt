mod Walk
mod Sizes
mod Right
mod Frames
mod Totals
mod StreamBytes
mod Weights
mod Stages
mod WindowCounts
mod Drops
mod Paths
mod DropPaths
mod Flows
mod Rising
mod Lists
mod Keys
mod Counts
pub mod Sets
pub mod Files
