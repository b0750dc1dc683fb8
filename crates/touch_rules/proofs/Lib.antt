mod Rows
pub mod Edits
pub mod Fitting
pub mod Changes
pub mod Plain
pub mod Elsewhere
pub mod Orders
pub mod AimsKept
