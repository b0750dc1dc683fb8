pub mod Copies
pub mod Seen
pub mod Answered
