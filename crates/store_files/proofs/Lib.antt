pub mod Loops
pub mod Pieces
pub mod TextLists
