pub mod Widen
pub mod Windows
pub mod Responding
pub mod Unique
