pub mod Wanted
pub mod Turns
pub mod Settled
pub mod Found
pub mod Bare
