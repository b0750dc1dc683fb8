pub mod Dates
pub mod Places
pub mod Fetched
