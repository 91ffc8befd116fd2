pub mod View
pub mod OpenedView
pub mod Maps
pub mod Found
pub mod Frames
pub mod Laws
