pub mod Binding
pub mod Databases
pub mod Equality
pub mod Keys
pub mod Paths
pub mod Sizes
pub mod Types
pub mod Values
