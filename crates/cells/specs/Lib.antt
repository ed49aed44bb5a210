pub mod Cells
pub mod Searching
pub mod Keys
pub mod Letters
