mod Rows
pub mod Gathered
pub mod Least
pub mod Turns
pub mod Tables
pub mod Pairs
pub mod Kept
pub mod Steps
