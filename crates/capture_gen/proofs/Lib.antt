pub mod Accepted
pub mod Generator
pub mod MadeFrames
pub mod PlainName
pub mod Readable
pub mod Steps
