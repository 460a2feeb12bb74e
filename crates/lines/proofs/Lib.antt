pub mod Keeping
pub mod Scan
pub mod Ends
pub mod Ways
pub mod Callers
pub mod Unique
pub mod Same
