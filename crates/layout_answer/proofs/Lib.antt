pub mod Unique
pub mod Counts
pub mod Tells
pub mod Laid
pub mod Places
pub mod Senders
