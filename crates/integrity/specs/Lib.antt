pub mod Monitor
pub mod Code
