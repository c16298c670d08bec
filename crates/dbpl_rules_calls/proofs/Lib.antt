pub mod Listing
pub mod Silencing
pub mod Speaking
pub mod Suiting
