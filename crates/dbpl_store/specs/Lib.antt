pub mod Beginning
pub mod Errors
pub mod Kept
pub mod Stands
pub mod Stores
