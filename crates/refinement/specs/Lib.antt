pub mod Refinement
pub mod Seen
pub mod Touching
pub mod Near
pub mod Marking
pub mod Comparing
