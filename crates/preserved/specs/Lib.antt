pub mod Preserved
