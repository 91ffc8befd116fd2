mod MapSteps
mod Segments
mod Treating
