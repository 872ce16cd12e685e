pub mod Plant
pub mod Stages
