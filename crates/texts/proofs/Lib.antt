pub mod Digits
pub mod MarksBack
pub mod ReadBack
pub mod Joined
pub mod Taken
pub mod Found
