mod Takes
mod Readings
mod Digits
mod Counting
mod Written
mod Sayings
