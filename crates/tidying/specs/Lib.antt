pub mod Tidying
