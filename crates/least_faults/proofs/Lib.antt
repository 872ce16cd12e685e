pub mod Posing
pub mod AxiomLists
pub mod QuestionRoom
mod CodedAlarms
mod Beginning
pub mod Below
mod FewClauses
mod Observed
mod AddedClauses
pub mod Bounded
pub mod ColumnsBuilt
pub mod Columns
pub mod Beside
pub mod CodeFor
mod Drafts
mod Reserving
mod Determined
pub mod Entailing
pub mod KnownEvents
mod KnownVariables
mod FaultSteps
pub mod Assuming
pub mod Staying
mod Telling
pub mod Putting
pub mod Asked
pub mod Solved
pub mod Climbing
pub mod Closing
mod Rounds
pub mod FreshCount
pub mod Deciding
pub mod Ranking
pub mod Roomless
