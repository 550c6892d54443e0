pub mod Facts
pub mod PageLaws
