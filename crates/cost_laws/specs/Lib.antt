pub mod Units
pub mod Items
pub mod Reads
pub mod Courses
pub mod Visits
