pub mod Laws
pub mod Served
pub mod Session
