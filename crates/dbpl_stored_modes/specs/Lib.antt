pub mod CreateCommand
pub mod Creating
pub mod Images
pub mod Reading
pub mod RunCommand
pub mod Telling
