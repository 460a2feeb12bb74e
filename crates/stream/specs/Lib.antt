pub mod Next
pub mod Moves
