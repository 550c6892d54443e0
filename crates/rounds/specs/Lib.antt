pub mod Word
pub mod Rounds
