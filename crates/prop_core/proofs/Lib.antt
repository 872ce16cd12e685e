mod PieceLists
pub mod Entailed
pub mod Literals
pub mod LiteralNumbers
pub mod Standings
pub mod Forcing
pub mod Following
mod Vectors
pub mod NameLemmas
pub mod FurtherNames
pub mod FamilyLemmas
mod GridLemmas
pub mod Premises
pub mod Listed
pub mod Negations
