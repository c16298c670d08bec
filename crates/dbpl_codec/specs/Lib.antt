pub mod Growth
pub mod KeySpelling
pub mod Numbers
pub mod Reading
pub mod TypeReading
pub mod TypeSpelling
pub mod ValueSpelling
