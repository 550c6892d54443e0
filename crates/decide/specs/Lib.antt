pub mod Allowed
pub mod Looks
