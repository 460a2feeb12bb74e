pub mod Lines
pub mod Held
pub mod Collect
pub mod Same
