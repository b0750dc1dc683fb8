pub mod FileDisk
pub mod Files
pub mod LoopLink
pub mod Ports
pub mod Queue
pub mod Searches
pub mod Seats
pub mod Streams
