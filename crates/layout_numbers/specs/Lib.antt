pub mod Optional
pub mod Places
