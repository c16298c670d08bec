pub mod Bindings
pub mod BoundLaws
pub mod DatabaseLaws
pub mod Given
pub mod StringSteps
