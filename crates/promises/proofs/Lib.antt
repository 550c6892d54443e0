pub mod Chain
pub mod Refuse
pub mod Apart
