pub mod Costs
pub mod Drawn
pub mod Pricing
pub mod Entries
pub mod Weighed
pub mod Answers
pub mod Asking
pub mod Searching
