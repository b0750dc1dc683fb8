pub mod Placing
pub mod Gathering
pub mod Lines
pub mod Slots
