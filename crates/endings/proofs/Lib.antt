pub mod Reading
pub mod Earlier
mod Putting
pub mod Speaking
pub mod Once
