pub mod Days
pub mod Words
pub mod Strings
pub mod Leaves
pub mod Keys
pub mod Sought
pub mod Grammar
