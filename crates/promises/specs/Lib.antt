pub mod Code
pub mod First
pub mod Second
pub mod Third
