pub mod Ahead
pub mod Steps
pub mod Room
pub mod WorthSets
pub mod Writing
pub mod Sizes
pub mod Filled
pub mod Corners
