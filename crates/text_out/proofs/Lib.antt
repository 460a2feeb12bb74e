pub mod Laws
pub mod Strings
pub mod Copied
pub mod Decimals
pub mod Unique
pub mod Lengths
pub mod Whole
pub mod Pieces
