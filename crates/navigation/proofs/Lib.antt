-- Laws that the functions' proofs cite, and those that other crates may cite: `Finite` and `Laws`.
mod Constants
mod Signs
mod Values
mod Parts
mod Bounded
pub mod Finite
pub mod Laws
