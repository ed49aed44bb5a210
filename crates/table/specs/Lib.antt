pub mod Sequence
pub mod Noting
pub mod Places
pub mod Walking
pub mod Writing
