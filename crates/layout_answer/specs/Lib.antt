pub mod Sentence
pub mod Answer
pub mod Layout
pub mod Sender
