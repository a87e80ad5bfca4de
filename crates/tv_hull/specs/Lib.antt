pub mod Pairs
pub mod Points
pub mod Ways
pub mod Faults
pub use Rattle.tv_spec_plane.specs.Plane
pub use Rattle.tv_laws_tiling.specs.Members
pub use Rattle.tv_laws_tiling.specs.Hull
