pub mod Orders
pub mod Laws
pub use Rattle.tv_spec_plane.specs.Web
pub use Rattle.tv_spec_boxes.specs.Assignments
pub use Rattle.tv_spec_boxes.specs.Configurations
