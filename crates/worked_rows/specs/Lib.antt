pub mod ChainRows
pub mod TenantRows
pub mod GeneratedRows
pub mod EpochRows
pub mod GroupLaws
pub mod ReportRows
