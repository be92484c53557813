pub mod Cut
pub mod Told
pub mod Histories
pub mod Playbacks
pub mod Sections
pub mod Scripts
