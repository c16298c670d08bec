pub mod BreaksOff
pub mod Comments
pub mod Fronts
