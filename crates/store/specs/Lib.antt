pub mod Blocks
pub mod Directories
pub mod Records
pub mod Stores
pub mod Keeps
