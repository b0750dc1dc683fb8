pub mod Orders
pub mod Hearing
pub mod Outline
pub mod Resolving
pub mod Working
