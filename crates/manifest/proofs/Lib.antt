pub mod Equal
pub mod Places
pub mod Widths
pub mod Steps
pub mod Puts
pub mod Accepts
