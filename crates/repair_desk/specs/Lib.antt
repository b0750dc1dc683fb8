pub mod Repairs
pub mod Lookups
pub mod Refusing
pub mod Renewals
