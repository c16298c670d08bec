pub mod Appending
pub mod Reports
