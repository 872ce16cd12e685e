pub mod DueLemmas
pub mod RowLemmas
