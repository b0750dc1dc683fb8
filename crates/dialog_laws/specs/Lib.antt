pub mod Ranges
pub mod SmtpClient
pub mod ImapClient
pub mod Joined
pub mod Quits
pub mod PopClient
