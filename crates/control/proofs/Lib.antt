pub mod Kept
mod RunTicks
