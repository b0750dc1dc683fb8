mod Arguments
mod Held
mod Searches
mod Turns
mod Rows
