pub mod Plane
pub mod Limits
pub mod Tiling
pub mod Web
pub mod Graded
