pub mod Twin
pub mod Asked
pub mod Promise
