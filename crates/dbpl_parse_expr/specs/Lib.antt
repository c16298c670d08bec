pub mod Calls
pub mod Gives
pub mod Made
pub mod Nests
