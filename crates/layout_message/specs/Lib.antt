pub mod Static
pub mod Asked
pub mod Message
