pub mod DayLemmas
pub mod WalkLemmas
pub mod TextLemmas
pub mod Rows
