pub mod Waiting
pub mod Rank
pub mod Queue
