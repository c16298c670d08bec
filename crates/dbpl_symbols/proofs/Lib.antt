pub mod HeldLaws
pub mod KnownLaws
pub mod ParamLaws
pub mod PlaceLaws
pub mod ScopeLaws
