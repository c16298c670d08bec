pub mod Arguments
pub mod Asking
pub mod Results
pub mod Rules
