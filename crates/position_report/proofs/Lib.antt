-- Laws of a position report, which other crates may cite.
pub mod Laws
pub mod Finite
