pub mod CountLaws
mod Examples
pub mod Fronts
pub mod Grown
pub mod Images
pub mod Moments
pub mod Puts
pub mod Recorded
pub mod Replays
pub mod Standing
pub mod Torn
pub mod WriteMoments
