pub mod Delivery
pub mod Lines
pub mod Calls
pub mod RoundTrip
