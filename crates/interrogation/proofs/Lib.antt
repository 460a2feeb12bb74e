-- The laws of an interrogation, which other crates may cite.
pub mod Laws
pub mod Answers
pub mod Lengths
pub mod Sound
pub mod Unique
