pub mod Begun
pub mod Comparing
pub mod Tasks
pub mod Places
pub mod Refusing
pub mod Leaving
pub mod Reaching
pub mod Permanence
