pub mod Pieces
pub mod Numbers
pub mod Texts
pub mod Line
pub mod Script
pub mod Transcript
