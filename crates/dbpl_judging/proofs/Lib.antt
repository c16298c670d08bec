pub mod Examples
pub mod Least
pub mod Lists
pub mod NodeLaws
pub mod Sequence
pub mod Silencing
pub mod Speaking
pub mod Staging
