pub mod Calls
pub mod Trips
