pub mod Unique
pub mod Order
pub mod Within
