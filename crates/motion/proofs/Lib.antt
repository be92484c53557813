pub mod Speeds
pub mod Steps
pub mod Bounds
pub mod Stops
