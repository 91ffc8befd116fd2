mod Cells
mod Rings
mod Order
mod Send
mod Decodes
mod SendCall
mod Receive
mod Joins
mod Moves
mod Finish
mod Seats
mod AtEnd
mod Claim
pub mod ShowsLawful
pub mod Events
pub mod RingEvents
pub mod TakeEvent
mod WordCalls
mod RingCalls
mod Logs
mod Finds
mod Gots
mod Starts
mod Ends
pub mod Unseen
pub mod LastEvents
pub mod Handed
