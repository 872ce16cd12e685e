mod Sizes
mod Refusing
mod Keeping
mod Stages
mod Drafting
mod Joining
mod Telling
pub mod Rowing
mod Vectors
