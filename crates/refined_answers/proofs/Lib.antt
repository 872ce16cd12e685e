pub mod EventLemmas
pub mod RunLemmas
pub mod FollowLemmas
pub mod BehaviourLemmas
pub mod TextLemmas
pub mod AnswerLemmas
mod FollowTests
mod Models
mod NetworkTests
mod Vectors
