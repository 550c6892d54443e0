pub mod Releases
pub mod Wiped
