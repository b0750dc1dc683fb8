pub mod Kept
pub mod Places
pub mod Texts
pub mod Bases
pub mod Coming
pub mod Naming
pub mod Founding
pub mod Beginning
