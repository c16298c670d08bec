pub mod Constants
pub mod Fitting
pub mod Hosts
pub mod Literals
pub mod Operators
pub mod Rules
