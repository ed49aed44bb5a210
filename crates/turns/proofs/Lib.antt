pub mod Sorting
pub mod Inserting
pub mod Renewing
pub mod Closing
