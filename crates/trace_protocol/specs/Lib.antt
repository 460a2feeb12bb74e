pub mod Lend
pub mod Read
pub mod Said
