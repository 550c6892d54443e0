pub mod Spared
pub mod Shut
pub mod Blind
pub mod Monitored
pub mod Coded
pub mod Entered
