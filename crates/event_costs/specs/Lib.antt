pub mod Prices
pub mod StoredCosts
pub mod CostText
pub mod LineWords
pub mod Reading
