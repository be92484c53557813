pub mod Bounds
pub mod Ended
pub mod EndingLemmas
pub mod RowLemmas
