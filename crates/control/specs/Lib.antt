pub mod States
pub mod Ticks
pub mod Obeyed
