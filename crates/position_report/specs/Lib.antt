pub mod Table
pub mod Report
