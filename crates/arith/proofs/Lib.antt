pub mod Quotients
pub mod Orders
