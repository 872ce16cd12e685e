mod Seeing
mod Refuting
mod Reasoning
mod Descending
pub mod Beginning
mod Finishing
pub mod Closing
