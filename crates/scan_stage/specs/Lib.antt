pub mod Segment
pub mod FlowScans
pub mod ScanKind
