pub mod Numbers
pub mod Usage
pub mod Spelling
pub mod Program
