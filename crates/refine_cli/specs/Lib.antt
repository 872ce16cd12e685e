pub mod Due
pub mod Rows
