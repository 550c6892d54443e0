pub mod Holds
pub mod Ends
pub mod Computed
