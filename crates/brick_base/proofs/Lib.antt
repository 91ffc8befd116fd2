pub mod WordSums
