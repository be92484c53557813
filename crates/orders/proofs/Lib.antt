pub mod Accepted
pub mod Written
