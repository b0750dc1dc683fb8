pub mod PlaceLaws
pub mod MailLaws
mod FixedRows
mod Keys
mod KeyPlaces
mod Gone
mod Indexes
mod KeysSeen
mod Patterns
mod Headers
pub mod RowRuns
pub mod Runs
mod Reached
mod Occurrences
mod ConfLaws
mod AliasOrder
mod FilterOrder
mod UserNames
