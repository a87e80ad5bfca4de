pub mod Search
pub mod Room
pub mod Sized
pub mod Nodes
pub mod Standing
pub use Rattle.tv_spec_boxes.specs.Configurations
