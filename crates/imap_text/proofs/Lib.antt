pub mod WordLemmas
pub mod ExpungeLemmas
