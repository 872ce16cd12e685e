mod Truths
mod Telling
mod Drawing
mod Apart
pub mod Riders
pub mod Ready
mod Asking
mod Events
mod Judged
mod Going
mod Answered
mod Making
mod Steps
mod Guarding
pub mod Calling
mod Witnesses
mod FaultLists
