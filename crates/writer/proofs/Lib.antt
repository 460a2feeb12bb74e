pub mod Armoured
pub mod Sendable
pub mod Characters
pub mod Lines
pub mod Lengths
pub mod Placed
pub mod Answers
pub mod Unique
