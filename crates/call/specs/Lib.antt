-- no definitions of its own
pub mod Sought
