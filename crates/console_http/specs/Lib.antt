pub mod Parts
pub mod Members
pub mod Acts
pub mod Cycles
pub mod Routes
pub mod Pages
pub mod Requests
