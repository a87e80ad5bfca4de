pub mod Laws
pub mod PartialLaws
pub use Rattle.tv_spec_plane.specs.Web
pub use Rattle.tv_spec_boxes.specs.Assignments
pub use Rattle.tv_spec_boxes.specs.Configurations
