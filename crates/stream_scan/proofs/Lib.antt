mod Occurrences
mod Finding
mod Lasts
mod Runs
mod Grown
mod Scanning
