pub mod Newest
pub mod Resting
