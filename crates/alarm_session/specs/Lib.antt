pub mod Labelled
pub mod Refusals
pub mod Additions
pub mod Session
pub mod Rows
