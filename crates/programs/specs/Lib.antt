pub mod Addresses
pub mod Ends
pub mod Naming
pub mod Outputs
pub mod Requests
pub mod SheetWords
