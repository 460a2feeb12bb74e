pub mod Request
pub mod Write
