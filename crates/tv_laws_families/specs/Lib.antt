pub mod Glued
pub mod Laws
pub use Rattle.tv_spec_boxes.specs.Classes
pub use Rattle.tv_spec_boxes.specs.Configurations
pub use Rattle.tv_spec_boxes.specs.Numbers
pub use Rattle.tv_spec_series.specs.Families
