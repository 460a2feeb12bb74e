pub mod Words
pub mod Refusal
pub mod Values
pub mod Order
