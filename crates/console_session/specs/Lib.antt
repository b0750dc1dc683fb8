pub mod Answers
pub mod ConsoleTurn
pub mod Hindrance
pub mod Hearing
