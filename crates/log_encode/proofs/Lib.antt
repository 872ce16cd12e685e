mod VariableLemmas
mod LoopLemmas
mod Naming
pub mod CodeLemmas
pub mod EndLemmas
pub mod TakenLemmas
pub mod StayLemmas
mod GrowLemmas
mod Reading
mod DraftLemmas
mod CallLemmas
mod CommitLemmas
pub mod WrittenLemmas
mod LogEndLemmas
mod Nameless
pub mod Guards
