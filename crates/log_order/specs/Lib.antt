pub mod Log
pub mod Certainty
pub mod Meanings
pub mod Adding
pub mod Precedence
pub mod View
pub mod Order
pub mod Waiting
