mod Sums
mod Drawing
mod Pricing
mod Inputs
mod Pushed
mod EntrySums
mod FoundCosts
mod Asked
mod Writing
mod Asks
mod Weighed
pub mod Fitting
mod Answering
mod Halving
mod Finding
mod Rounds
