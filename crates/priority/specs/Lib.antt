pub mod Priority
pub mod Rules
pub mod Ranks
