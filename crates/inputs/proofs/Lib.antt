pub mod Laws
pub mod Between
