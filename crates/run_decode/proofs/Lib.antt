pub mod Faults
mod Truths
pub mod RunsGiven
pub mod Assumptions
pub mod Questions
pub mod Decided
pub mod Tells
pub mod FurtherNames
mod Parts
mod Growth
mod Reading
mod Vectors
pub mod RunNames
pub mod WholeNames
pub mod DecodeNames
mod DecodeTable
pub mod SmallPieces
mod ShownSteps
mod DecodeLoops
pub mod DecodeRuns
pub mod DecodeOrder
pub mod DecodeBounds
mod SourceLemmas
mod DecodeFalls
pub mod WholeClauses
pub mod WholeRoom
pub mod FewNames
mod NamingVectors
pub mod Built
mod BuiltVectors
