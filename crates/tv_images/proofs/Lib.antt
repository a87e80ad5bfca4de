pub mod Corners
pub mod Least
pub mod Rows
