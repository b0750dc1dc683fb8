pub mod Names
pub mod Views
pub mod Named
pub mod Facts
pub mod Following
