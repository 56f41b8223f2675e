pub mod Lists
pub mod Chosen
pub mod Accepted
pub mod Keeping
pub mod Rows
pub mod Lives
pub mod Counts
pub mod Changes
