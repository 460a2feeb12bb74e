pub mod Unarmor
pub mod Message
pub mod Alone
