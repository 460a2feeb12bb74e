pub mod Sounding
pub mod Fits
