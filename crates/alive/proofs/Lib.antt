pub mod Wells
pub mod Computed
pub mod Ran
