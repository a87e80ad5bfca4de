pub mod Places
pub mod Lines
pub mod Files
pub mod Reports
pub mod Checks
pub use Rattle.tv_spec_plane.specs.Plane
pub use Rattle.tv_spec_plane.specs.Web
