pub mod Begun
pub mod Diagnosed
pub mod Formula
pub mod Refuted
