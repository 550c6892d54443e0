pub mod Reading
pub mod Hexed
pub mod Writing
pub mod Places
