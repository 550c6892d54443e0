pub mod Heard
pub mod Served
pub mod Session
