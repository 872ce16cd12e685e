pub mod ListLemmas
mod PairLemmas
pub mod Counts
pub mod States
pub mod NameLemmas
pub mod CodeLemmas
pub mod Exact
pub mod Inputs
pub mod PlaceLemmas
mod RowLemmas
pub mod Adding
mod Vectors
mod Chains
pub mod Listed
pub mod Exclusions
