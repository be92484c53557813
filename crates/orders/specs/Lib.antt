pub mod Names
pub mod Reading
pub mod State
pub mod Values
pub mod Judged
pub mod Intentions
