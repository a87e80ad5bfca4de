pub mod Faults
pub mod Orders
pub mod Divisors
pub use Rattle.tv_spec_series.specs.ReducedFamilies
