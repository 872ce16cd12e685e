pub mod Deciding
pub mod Left
pub mod Replied
pub mod Stages
pub mod Whole
