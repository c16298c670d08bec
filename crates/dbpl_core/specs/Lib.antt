pub mod Events
pub mod Outcomes
pub mod Phrases
pub mod Stores
