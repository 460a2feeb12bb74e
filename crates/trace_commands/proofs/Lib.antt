pub mod Unique
pub mod Laws
pub mod Cuts
pub mod Readings
pub mod Fillings
pub mod UniqueBytes
