pub mod Falling
pub mod Slices
pub mod Paths
