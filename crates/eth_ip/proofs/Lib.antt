pub mod FrameLayers
pub mod Right
