pub mod Beginning
pub mod Changes
pub mod Fronts
pub mod Records
pub mod Rest
pub mod Worlds
