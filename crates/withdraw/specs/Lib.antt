pub mod Unediting
pub mod Coming
pub mod Lookups
