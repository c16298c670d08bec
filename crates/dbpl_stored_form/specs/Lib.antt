pub mod DataModules
pub mod Imports
pub mod Lists
pub mod Names
pub mod Programs
pub mod Statements
pub mod Texts
