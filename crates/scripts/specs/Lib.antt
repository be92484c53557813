-- The definitions that the contracts cite.
pub mod Numbers
pub mod Replies
pub mod PassedOver
pub mod Cut
pub mod Asked
pub mod Orders
pub mod Reading
pub mod Texts
pub mod Calls
pub mod Told
pub mod Playing
pub mod Snapshots
pub mod Sections
pub mod Playbacks
pub mod Scripts
pub mod Messages
