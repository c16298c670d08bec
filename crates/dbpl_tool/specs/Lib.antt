pub mod Commands
pub mod Next
pub mod Notes
