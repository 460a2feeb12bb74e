pub mod Asked
pub mod Reply
pub mod Line
pub mod Numbers
pub mod Hex
