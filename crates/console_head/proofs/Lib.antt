pub mod Bounded
pub mod Cut
pub mod Fusion
pub mod Heads
pub mod Once
pub mod Reading
