pub mod Listing
pub mod Telling
pub mod Together
pub mod Rows
