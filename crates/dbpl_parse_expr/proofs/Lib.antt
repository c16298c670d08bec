pub mod CallLaw
pub mod Depth
pub mod Loops
pub mod Pairs
