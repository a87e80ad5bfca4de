pub mod Remaining
pub mod Tables
pub mod Steps
pub mod Walk
pub mod Moves
pub use Rattle.tv_spec_boxes.specs.Assignments
