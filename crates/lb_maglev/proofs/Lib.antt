pub mod Prime
pub mod Searches
pub mod ShareLemmas
pub mod TurnLemmas
pub mod WalkLemmas
pub mod EpochLemmas
