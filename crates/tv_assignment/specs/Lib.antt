pub mod Size
pub mod Listing
pub use Rattle.tv_spec_boxes.specs.Assignments
