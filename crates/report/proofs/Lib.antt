mod NameWords
pub mod DecimalWords
mod PrintedRuns
pub mod ReadsBack
pub mod PrintedLengths
mod Vectors
mod Appending
