pub mod Places
mod Reaching
pub mod OrderLemmas
pub mod MarkLemmas
mod PassLemmas
pub mod KeptLemmas
pub mod AlarmLemmas
mod Meaning
pub mod LeastOrder
mod WaitingLemmas
mod Vectors
