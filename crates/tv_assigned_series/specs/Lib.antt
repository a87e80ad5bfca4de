pub mod Terms
pub mod Empties
pub mod Kept
pub mod FamilyFaults
pub use Rattle.tv_spec_boxes.specs.Assignments
pub use Rattle.tv_laws_counts.specs.Ways
