pub mod Lists
pub mod Each
pub mod Listed
pub mod Sound
pub mod Played
pub mod Beginnings
pub mod Begins
pub mod Named
