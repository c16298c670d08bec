pub mod Behind
pub mod Examples
pub mod Silencing
pub mod Speaking
