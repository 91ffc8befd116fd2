pub mod LayerLaws
pub mod RightLaws
