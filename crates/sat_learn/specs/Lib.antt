pub mod Seen
pub mod Learnt
pub mod LearnerState
