pub mod States
pub mod Lines
pub mod Counter
pub mod Machine
pub mod Views
