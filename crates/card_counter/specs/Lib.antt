pub mod Exclusions
pub mod AtMostOne
pub mod CounterClauses
pub mod CounterState
pub mod Counting
pub mod Growing
pub mod Rows
