pub mod Limits
pub mod Excesses
pub mod Classes
pub use Rattle.tv_spec_plane.specs.Plane
pub use Rattle.tv_spec_plane.specs.Web
