pub mod Layout
pub mod Reader
pub mod Writer
pub mod Items
