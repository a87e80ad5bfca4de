pub mod Naturals
pub mod Sums
