mod Rows
mod Begins
