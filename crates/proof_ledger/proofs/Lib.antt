mod Hints
mod Books
mod Beginnings
pub mod Checks
pub mod AxiomLists
pub mod BookTruth
mod Helds
mod Marking
mod Places
mod Vectors
pub mod Fronts
