pub mod Lines
pub mod OneTenant
