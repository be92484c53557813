pub mod Lawful
pub mod Strangers
pub mod Refusals
pub mod Counter
pub mod Histories
pub mod Steps
pub mod Machines
