pub mod Fronts
pub mod Justifying
pub mod Placing
mod Values
pub mod Leveling
pub mod Seeing
mod Fitting
mod Passing
mod Links
mod Covering
mod Dropping
mod Linking
mod Walking
mod WatchLists
mod Nodes
mod Keeping
mod Pairing
mod Moving
mod Settling
mod Turning
mod Attaching
mod Growing
mod Inspecting
mod Waiting
mod Visiting
mod Subsuming
mod Falling
mod Signatures
mod Latest
