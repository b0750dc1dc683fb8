pub mod Judging
pub mod Repairing
pub mod Cycles
pub mod Asking
pub mod Withdrawals
pub mod Cutting
