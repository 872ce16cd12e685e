pub mod Taking
pub mod Failing
pub mod Joining
