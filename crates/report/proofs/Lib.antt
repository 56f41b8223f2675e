pub mod Rows
pub mod Lines
pub mod Reportable
pub mod Writing
pub mod Unique
