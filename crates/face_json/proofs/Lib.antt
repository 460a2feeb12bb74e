pub mod Statuses
pub mod Usual
pub mod Fits
