mod Booking
mod Putting
pub mod Standing
mod Stepping
mod Learning
mod Modeling
mod Clashing
pub mod WaitingVariables
pub mod Adopting
mod Joining
mod Keeping
mod Vectors
mod Places
mod Rounds
mod LevelMarks
mod Moving
mod AssumedLevels
mod Ordering
mod Trying
mod Taking
mod Adding
pub mod Entries
pub mod Freshness
pub mod Leaving
