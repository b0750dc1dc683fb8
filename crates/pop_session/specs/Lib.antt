pub mod Command
pub mod Answer
pub mod Maildrop
pub mod Sending
pub mod Dialog
pub mod Removal
pub mod Sound
