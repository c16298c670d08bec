pub mod CauseLaw
pub mod TextLaw
