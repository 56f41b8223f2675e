pub mod Walks
pub mod Published
