pub mod Decided
pub mod MadeLaw
pub mod RunLaw
pub mod Stages
