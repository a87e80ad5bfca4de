pub mod Gathered
pub mod Genera
pub mod Named
pub mod Unequal
pub mod OwnFactors
pub mod PowerLines
pub mod Computed
pub mod Compared
pub mod Planned
mod TestReports
