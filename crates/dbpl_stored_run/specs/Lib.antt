pub mod Answers
pub mod Between
pub mod Errors
pub mod Headline
pub mod Leaving
pub mod Statements
