pub mod Chains
pub mod Inputs
pub mod Run
pub mod Written
