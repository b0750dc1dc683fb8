pub mod Agreeing
pub mod Clients
pub mod Senders
pub mod Told
pub mod Others
pub mod Runs
pub mod Steps
