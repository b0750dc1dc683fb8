pub mod Seeking
pub mod Finding
pub mod Rows
pub mod Parts
pub mod Lowering
