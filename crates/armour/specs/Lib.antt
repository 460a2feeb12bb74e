pub mod Armour
pub mod Unarmor
pub mod Soundings
pub mod Spread
