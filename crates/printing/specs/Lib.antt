pub mod Listing
pub mod Report
