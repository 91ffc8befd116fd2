mod Names
mod Paths
mod Facts
