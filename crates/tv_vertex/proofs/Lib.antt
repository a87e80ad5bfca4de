pub mod Corners
pub mod Remaining
pub mod Writing
pub mod Steps
pub mod Tallied
