pub mod Sound
pub mod Tree
pub mod TreeLaws
pub mod Built
pub mod Plain
