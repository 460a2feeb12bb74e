pub mod StaticCounts
pub mod Counts
pub mod Unused
