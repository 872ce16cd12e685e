mod Vectors
mod NumberLemmas
mod ClauseLemmas
mod CnfLemmas
mod LineLemmas
mod SurveyLemmas
mod CodeLemmas
mod WellLines
mod PrintLemmas
mod WordLemmas
mod NumeralLemmas
pub mod CnfPrinted
mod LratPrinted
mod PieceLemmas
mod Rechecking
pub mod Fronts
pub mod Readable
pub mod Commented
