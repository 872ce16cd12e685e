pub mod ComponentLemmas
pub mod PartLemmas
pub mod DraftLemmas
pub mod Local
pub mod NetworkLemmas
pub mod Steps
pub mod WidthLemmas
mod Vectors
pub mod Sharing
