pub mod Message
pub mod Writer
