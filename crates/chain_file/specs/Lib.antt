pub mod NamedView
pub mod View
pub mod Laws
