mod Ends
mod Both
pub mod Runs
mod Failures
mod Growing
mod Leaving
pub mod Deciding
