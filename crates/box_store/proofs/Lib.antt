mod Answered
mod Growth
mod Counts
mod InTurn
mod Made
mod RowMoves
mod KeysThere
mod Plans
pub mod Renames
mod WorkLaws
mod Aimed
mod GrowLaws
pub mod SpareLaws
mod Making
pub mod Outlines
