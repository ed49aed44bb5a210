pub mod Counts
pub mod Parts
pub mod Renumbered
pub mod Props
