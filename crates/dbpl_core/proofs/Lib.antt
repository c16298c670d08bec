pub mod Events
pub mod Examples
pub mod Levels
pub mod Stores
