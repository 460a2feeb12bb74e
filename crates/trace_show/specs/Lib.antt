pub mod Shown
pub mod Record
pub mod Words
pub mod Tables
pub mod Message
