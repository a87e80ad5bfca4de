pub mod Corners
pub mod Rest
