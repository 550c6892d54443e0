pub mod Carried
pub mod Refused
