pub mod Reply
pub mod Bodies
pub mod Timeline
pub mod Mailboxes
pub mod Confs
pub mod Reports
