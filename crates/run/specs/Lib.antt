pub mod Holding
pub mod Serving
pub mod Listing
pub mod View
