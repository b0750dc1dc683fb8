pub mod OrderLemmas
pub mod NoteLemmas
pub mod PlaceLemmas
pub mod MarkLemmas
