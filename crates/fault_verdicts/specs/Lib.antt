pub mod Verdicts
pub mod Asked
pub mod Telling
pub mod Riders
pub mod Ready
pub mod Judged
pub mod Judging
pub mod Judges
