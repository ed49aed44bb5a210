pub mod Keeping
pub mod Renumbering
