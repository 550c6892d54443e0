pub mod Fields
pub mod Grammar
