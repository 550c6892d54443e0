pub mod Given
pub mod Nexts
pub mod Plans
pub mod Stays
