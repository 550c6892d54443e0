pub mod Plan
pub mod Tests
pub mod Decide
pub mod Act
pub mod Isolation
pub mod Measures
pub mod Calls
