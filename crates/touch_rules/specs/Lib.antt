pub mod Table
pub mod Commuting
pub mod Swapping
