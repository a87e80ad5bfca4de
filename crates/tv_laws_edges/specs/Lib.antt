pub mod Rule
pub mod Laws
pub use Rattle.tv_spec_plane.specs.Plane
pub use Rattle.tv_spec_plane.specs.Web
