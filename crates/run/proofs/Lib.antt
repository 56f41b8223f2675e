pub mod Served
pub mod Struck
pub mod Calls
pub mod Passed
pub mod Listed
pub mod Leading
