pub mod Sha1
pub mod Parts
pub mod Laws
pub mod Examples
