pub mod Expressions
pub mod Laws
pub mod Lexemes
pub mod Reading
pub mod Statements
pub mod Types
pub mod Units
