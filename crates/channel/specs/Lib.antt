pub mod Sending
pub mod Following
pub mod Frames
