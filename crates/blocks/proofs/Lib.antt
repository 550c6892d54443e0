pub mod Fold
pub mod Filled
