pub mod Picks
pub mod Joining
pub mod Sums
pub mod Rows
pub mod Bounds
pub mod Layers
pub mod Frontiers
pub mod Signs
