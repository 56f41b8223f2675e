-- The lemmas, by subject.
pub mod Checks
pub mod Digits
pub mod Fields
pub mod Misspelt
pub mod Orders
pub mod Parts
pub mod Puts
pub mod Refusals
pub mod Spellings
pub mod Steps
pub mod Turns
pub mod Unfit
