pub mod Rest
pub mod Outs
pub mod Ends
pub mod Sights
