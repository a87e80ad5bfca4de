pub mod Sums
pub mod Tested
pub mod Bounded
pub mod Beside
pub mod OpenPlaces
pub mod Longer
pub mod Fitted
pub mod Up
