pub mod Asked
pub mod Occurs
pub mod Meets
pub mod Codes
