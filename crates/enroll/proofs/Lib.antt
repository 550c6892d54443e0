pub mod Opened
pub mod Gathered
pub mod Registers
pub mod FreeSlot
