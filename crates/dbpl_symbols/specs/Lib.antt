pub mod InOutNames
pub mod Interfaces
pub mod Known
pub mod Parameters
pub mod Places
pub mod Scopes
pub mod StandardNames
