pub mod Insertions
pub mod Meaning
pub mod Programs
pub mod Sets
pub mod Whole
