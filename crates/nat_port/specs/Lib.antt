pub mod Edited
pub mod Translation
