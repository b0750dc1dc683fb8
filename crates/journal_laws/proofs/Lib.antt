pub mod Came
pub mod Lasting
pub mod Rows
