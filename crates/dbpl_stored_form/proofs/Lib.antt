pub mod Found
pub mod SmallLaw
pub mod TextLaw
pub mod Turns
