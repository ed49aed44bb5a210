pub mod Values
pub mod Checks
