-- The definitions of an interrogation.
pub mod Table
pub mod Interrogation
pub mod Lengths
pub mod Sound
