pub mod Writing
pub mod Cutting
