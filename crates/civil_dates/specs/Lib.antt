pub mod Days
pub mod Months
pub mod Dates
