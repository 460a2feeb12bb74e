pub mod Laws
pub mod Answers
pub mod Soundings
pub mod Unique
pub mod Sixes
