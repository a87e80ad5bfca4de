mod Values
pub mod Bounds
pub mod Flip
pub mod Descending
pub mod Members
pub mod Written
pub mod Numbered
pub mod Shapes
