pub mod Zero
pub mod Face
pub mod Slots
