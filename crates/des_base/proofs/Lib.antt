pub mod NameLemmas
pub mod TableLemmas
mod NumberLemmas
mod TokenLemmas
mod LineLemmas
pub mod LawLemmas
pub mod PieceLemmas
pub mod BoolLemmas
pub mod Elements
pub mod NumbersBelow
pub mod PrintedLines
pub mod Appended
pub mod PlaceLemmas
pub mod Powers
pub mod Results
