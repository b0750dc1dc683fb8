pub mod Words
pub mod Fetching
pub mod Searching
pub mod Dialog
pub mod Sound
