pub mod Parts
pub mod Held
pub mod Holding
pub mod Receiving
pub mod Readings
pub mod Sizes
pub mod Stays
pub mod Drafts
