pub mod Keeping
pub mod Premises
