pub mod Bits
pub mod Field
pub mod Text
pub mod Scan
pub mod Table
pub mod Little
