pub mod Cells
pub mod Extras
pub mod Costs
pub mod Grid
pub mod Cuts
pub mod Laws
pub use Rattle.tv_partition.specs.Rows
