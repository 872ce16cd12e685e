mod NextLemmas
mod FieldLemmas
mod LabelLemmas
mod RowLemmas
mod ScriptLemmas
mod GrowthLemmas
pub mod LogLemmas
mod PrintLemmas
mod TextLemmas
mod ReadBackLemmas
mod Vectors
