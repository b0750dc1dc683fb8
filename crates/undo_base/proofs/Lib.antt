mod FewDigits
pub mod Names
