pub mod Commands
pub mod Holding
pub mod LiteralMarks
pub mod Reading
pub mod Sets
pub mod Spans
pub mod Streams
