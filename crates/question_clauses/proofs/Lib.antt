pub mod Lists
pub mod StepLemmas
mod Leads
pub mod Groups
pub mod StepsSound
mod StepsComplete
pub mod StepsExact
pub mod StepsWritten
mod StepsListed
pub mod LaidOut
pub mod StepCode
mod StepVectors
pub mod Pieces
pub mod Happening
pub mod LogOpen
pub mod ReadNames
pub mod LogRules
pub mod Fronts
pub mod CodedTruth
pub mod Entries
pub mod LogSound
mod Blocks
pub mod LogComplete
pub mod Matches
pub mod Stay
pub mod Growth
pub mod LogCodes
pub mod Drafts
pub mod NewNames
pub mod Numbered
pub mod Guards
pub mod Explained
pub mod BesideEvents
mod LogVectors
mod LogCodeVectors
