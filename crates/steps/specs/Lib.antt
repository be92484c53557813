pub mod Directions
pub mod Limits
pub mod Wrap
