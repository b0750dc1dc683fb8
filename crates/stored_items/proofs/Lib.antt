pub mod Whole
pub mod Alike
pub mod Heard
pub mod Unlooked
mod Rows
