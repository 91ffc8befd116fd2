pub mod Trees
pub mod Arrays
mod Least
