pub mod Agreeing
pub mod Looking
pub mod Finding
pub mod Telling
