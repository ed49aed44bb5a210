pub mod Lists
pub mod Slices
pub mod Meetings
pub mod Runs
pub mod Chains
pub mod Scans
pub mod Offers
pub mod Refreshes
