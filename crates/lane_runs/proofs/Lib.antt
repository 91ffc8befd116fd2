pub mod Filing
pub mod JobLists
pub mod Ready
pub mod Running
pub mod TenantSteps
