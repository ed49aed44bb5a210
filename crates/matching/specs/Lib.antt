pub mod Meetings
pub mod Running
