pub mod Examples
pub mod Listed
pub mod Quits
pub mod Removed
pub mod Sent
pub mod Stamped
pub mod Turns
