pub mod Floats
pub mod Names
pub mod Members
pub mod Rows
