pub mod Tasks
pub mod Verdicts
pub mod Answers
pub mod Determined
