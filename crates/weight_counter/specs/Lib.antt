pub mod Weighing
pub mod Scales
