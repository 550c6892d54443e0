pub mod Rows
pub mod States
pub mod Examples
pub mod Answers
pub mod Trace
