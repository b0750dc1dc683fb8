pub mod Sealed
pub mod Reading
pub mod Cutting
pub mod Forward
pub mod Fronts
pub mod Answered
pub mod Since
pub mod Rows
