pub mod Flow
pub mod Layering
pub mod Prefix
pub mod Reason
pub mod PrefixView
