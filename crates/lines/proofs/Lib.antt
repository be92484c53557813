pub mod KeptOf
