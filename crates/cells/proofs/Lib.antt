pub mod Rings
pub mod Turns
pub mod Lookups
pub mod Counts
mod Walks
mod Free
pub mod Props
