pub mod Documents
pub mod Words
pub mod Configuration
pub mod Playing
pub mod Beginning
