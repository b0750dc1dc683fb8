pub mod Lines
pub mod Fields
pub mod Header
pub mod Values
