pub mod Looking
pub mod Parts
pub mod Shown
pub mod Back
pub mod Texts
pub mod Rows
