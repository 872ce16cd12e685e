pub mod Diagnosing
mod Formulas
mod LastFinals
pub mod Refutations
