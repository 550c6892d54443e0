pub mod One
pub mod Parts
pub mod Events
pub mod Lines
pub mod Board
