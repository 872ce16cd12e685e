pub mod Behaviour
pub mod Texts
pub mod AnswerAlike
pub mod Sharp
pub mod Laws
