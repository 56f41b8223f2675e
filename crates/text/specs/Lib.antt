-- What a reader has to believe, each file on top of those before it.
pub mod Fields
pub mod Texts
pub mod Policies
pub mod Reading
pub mod Writing
pub mod Held
pub mod Places
