pub mod Journal
pub mod Loading
pub mod Loads
pub mod Log
pub mod Settled
pub mod Causes
pub mod Unread
