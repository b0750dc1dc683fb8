pub mod Cutting
pub mod Grouping
pub mod Heading
pub mod Together
pub mod Rows
pub mod FieldNames
