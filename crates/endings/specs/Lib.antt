pub mod Transcripts
pub mod Endings
pub mod Refusals
pub mod Files
pub mod Texts
pub mod Puts
