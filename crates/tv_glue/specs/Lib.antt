pub mod Asked
pub mod Summands
pub use Rattle.tv_spec_series.specs.Full
pub use Rattle.tv_laws_families.specs.Glued
