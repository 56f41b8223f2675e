pub mod Progresses
pub mod Jobs
pub mod Ticks
pub mod Runs
pub mod Orderly
pub mod Laws
pub mod Promises
