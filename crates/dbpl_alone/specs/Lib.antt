pub mod Answers
pub mod Command
pub mod Meaning
pub mod Modules
pub mod Program
pub mod Small
pub mod Units
