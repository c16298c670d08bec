pub mod Changes
pub mod Equality
pub mod Relations
