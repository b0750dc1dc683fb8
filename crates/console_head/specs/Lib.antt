pub mod Lines
pub mod Lengths
pub mod Request
pub mod Coming
pub mod Steps
pub mod Seen
