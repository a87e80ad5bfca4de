pub mod Ways
pub mod Laws
pub mod Cubes
pub mod Members
pub use Rattle.tv_spec_plane.specs.Web
pub use Rattle.tv_spec_boxes.specs.Assignments
pub use Rattle.tv_spec_boxes.specs.Configurations
pub use Rattle.tv_spec_boxes.specs.Numbers
