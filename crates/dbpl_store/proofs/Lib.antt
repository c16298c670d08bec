pub mod Changing
pub mod Committing
pub mod Creations
pub mod Openings
pub mod Standing
