pub mod Order
pub mod Places
pub mod Report
pub mod Scans
pub mod Spelling
pub mod Statuses
pub mod Words
pub mod formers
