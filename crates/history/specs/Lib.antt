pub mod Histories
pub mod Hosts
