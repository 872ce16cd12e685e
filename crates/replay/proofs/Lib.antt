mod SetLemmas
pub mod MoveLemmas
pub mod MarkLemmas
mod FollowLemmas
pub mod RunLemmas
mod TraceLemmas
mod TextLemmas
mod PlacingLemmas
mod PieceLemmas
pub mod ListTests
pub mod AcceptLemmas
mod DecideLemmas
pub mod AnswerLemmas
mod Vectors
mod ReplayVectors
mod SizeVectors
pub mod LabelMarks
