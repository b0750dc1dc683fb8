pub mod Cuts
pub mod Runs
mod Spelling
mod Written
mod Fillings
