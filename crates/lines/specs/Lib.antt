pub mod Addresses
pub mod Characters
pub mod Lines
