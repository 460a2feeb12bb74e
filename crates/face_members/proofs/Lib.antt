pub mod Members
pub mod Statuses
pub mod Shown
