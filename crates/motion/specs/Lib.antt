pub mod Limits
pub mod Values
pub mod Settings
pub mod Distances
pub mod Motions
pub mod Ticks
pub mod Laws
