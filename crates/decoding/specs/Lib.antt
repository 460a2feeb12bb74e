pub mod Turn
pub mod Asked
