pub mod Layout
pub mod Reading
pub mod Kinds
pub mod Refusals
pub mod Checks
pub mod Names
pub mod Changed
