pub mod Navigation
