pub mod Layouts
pub mod Reading
pub mod Frames
pub mod Reports
pub mod Trips
