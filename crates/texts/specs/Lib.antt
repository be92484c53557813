pub mod Texts
pub mod ReadBack
