pub mod Laws
pub mod Fields
pub mod Texts
pub mod Tables
pub mod Unique
pub mod LittleLaws
