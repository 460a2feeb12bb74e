pub mod Words
pub mod Floats
