pub mod StageView
pub mod BelowView
pub mod GroupView
pub mod ChainParts
pub mod View
