pub mod Spots
pub mod Corners
pub mod Between
pub mod HullSpots
pub mod Neighbours
pub mod Tiled
mod Counterexamples
