pub mod Builder
pub mod Frames
pub mod Reading
pub mod TextLaws
pub mod View
pub mod WorkedCapture
