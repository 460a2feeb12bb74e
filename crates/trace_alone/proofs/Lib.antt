pub mod Unarmoring
