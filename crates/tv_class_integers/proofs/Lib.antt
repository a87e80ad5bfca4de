pub mod RowSteps
pub mod Binomials
pub mod GatheredPowers
pub mod Readings
pub mod OwnPowers
pub mod FirstOrder
pub mod NextClass
pub mod Majorants
