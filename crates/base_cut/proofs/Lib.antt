pub mod Streams
pub mod Unfinished
pub mod Writings
pub mod Frames
pub mod Gatherings
pub mod Told
