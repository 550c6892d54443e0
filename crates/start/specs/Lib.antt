pub mod Start
pub mod Promise
