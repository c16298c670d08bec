pub mod Decided
pub mod Fetched
