mod Rows
pub mod Searching
pub mod Holding
pub mod Telling
pub mod Reasons
pub mod Told
