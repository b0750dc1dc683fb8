pub mod Kept
pub mod Effects
pub mod Plans
pub mod Refusing
pub mod Making
pub mod Outline
