pub mod Laws
pub mod Trimmed
