pub mod Replies
pub mod ReadBack
pub mod VerdictTexts
