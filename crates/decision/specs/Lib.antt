pub mod Least
pub mod Responses
pub mod Decisions
pub mod Determined
