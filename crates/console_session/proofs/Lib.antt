pub mod Deciding
pub mod Numbering
pub mod Requests
pub mod Rewinding
pub mod Texts
pub mod Turns
pub mod Waiting
