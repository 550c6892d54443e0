pub mod Host
pub mod Promise
