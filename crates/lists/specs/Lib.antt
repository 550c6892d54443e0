pub mod Below
pub mod Bytes
pub mod Numbers
pub mod Places
