pub mod Weights
pub mod Places
pub mod Written
pub mod Small
mod Vectors
