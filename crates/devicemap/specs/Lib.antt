pub mod Map
pub mod Promise
