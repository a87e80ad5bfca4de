pub mod Found
pub mod Edges
pub mod Corners
pub mod Built
pub use Rattle.tv_spec_plane.specs.Plane
pub use Rattle.tv_spec_plane.specs.Web
