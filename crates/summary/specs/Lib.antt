pub mod Tally
pub mod Summary
pub mod Unfinished
